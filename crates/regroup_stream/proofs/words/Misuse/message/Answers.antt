use Rattle.regroup_stream.proofs.words.Misuse.message.Goals as goal

pub returns-in-NoFormat : goal.returns-in-NoFormat
returns-in-NoFormat c = rw c.in-NoFormat.is c.misuse_message.ensures

pub returns-in-NoDigits : goal.returns-in-NoDigits
returns-in-NoDigits c = rw c.in-NoDigits.is c.misuse_message-in-NoDigits.ensures
