-- `block::copies::BothCopies::sound_value` meets its contract: where copy one's byte is bad, copy two's is good, and its bits are its value.
use Rattle.std.proofs.Common.{sym, ◌∙◌}
use Rattle.byte.proofs.CauseLaws.{value_in-none, value_in-good}
use Rattle.block.proofs.Filling.{value-one, value-two}
use Rattle.block.proofs.copies.BothCopies.sound_value.Goals as goal

pub returns-in_default : goal.returns-in_default
returns-in_default c =
    c.bits.ensures
    ∙ value-two c.args.self.now.t c.args.self.now.strip.now c.args.self.now.one c.args.self.now.two c.args.i c.requires.1 (value_in-none _ (sym c.in_default.is ∙ c.value.ensures))

pub returns : goal.returns
returns c =
    value-one c.args.self.now.t c.args.self.now.strip.now c.args.self.now.one c.args.self.now.two c.args.i (sym (value_in-good _ _ (sym c.in-Some.is ∙ c.value.ensures)))
