use Rattle.num_format_typed.proofs.DigitLemmas.{put-digit}
use Rattle.num_format_typed.proofs.symbols.SymbolsImage.keeps_digits.Goals as goal

pub returns : goal.returns
returns c = λ yes. put-digit c.args.self.now.separator.now c.args.self.now.mark.now
