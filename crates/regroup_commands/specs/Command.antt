-- The request that a `Command` is.
use Rattle.regroup_commands.specs.Request.{Request}
use Rattle.regroup_commands.specs.Request.Request.{Alike, Check, Custom, Names, Print, Read}
use Rattle.regroup_commands.specs.declared.command.Command.{Command}
use Rattle.regroup_commands.specs.declared.command.Command.TheVariants as command

-- the same command, with the bytes of its texts
abbrev pub request_of : Command → Request
request_of (command.Custom separator grouping minus_sign number) = Custom separator.now grouping minus_sign.now number
request_of (command.Print locale number) = Print locale.now number
request_of command.Names = Names
request_of (command.Read locale text) = Read locale.now text.now
request_of (command.Check locale) = Check locale.now
request_of (command.Alike first second) = Alike first.now second.now
