-- `block::copies::BothCopies::read_place` meets its contract, by cases of the two bytes.
use Rattle.std.proofs.Common.{sym, ap, ap₂, ◌∙◌}
use Rattle.pulse.specs.Pulse.{classes}
use Rattle.byte.proofs.CauseLaws.{value_in-none, value_in-good}
use Rattle.block.specs.Reading.{Lost, place_at}
use Rattle.block.proofs.ReadingLaws.{lost-is, causes-lost, place_at-one, place_at-two, place_at-both}
use Rattle.block.proofs.copies.BothCopies.read_place.Goals as goal

pub returns : goal.returns
returns c =
    sym (place_at-one (classes c.args.self.now.t c.args.self.now.strip.now) c.args.self.now.one c.args.self.now.two c.args.i _ (sym (value_in-good _ _ (sym c.in-Some.is ∙ c.value.ensures))))

pub returns-in_default : goal.returns-in_default
returns-in_default c =
    sym (place_at-two (classes c.args.self.now.t c.args.self.now.strip.now) c.args.self.now.one c.args.self.now.two c.args.i _ (value_in-none _ (sym c.in_default.is ∙ c.value.ensures))
    (sym (value_in-good _ _ (sym c.in-Some-value.is ∙ c.value-in_default.ensures))))

pub returns-in_default-value : goal.returns-in_default-value
returns-in_default-value c =
    let cs = classes c.args.self.now.t c.args.self.now.strip.now in
    let lost = place_at-both cs c.args.self.now.one c.args.self.now.two c.args.i (value_in-none _ (sym c.in_default.is ∙ c.value.ensures))
    (value_in-none _ (sym c.in_default-value.is ∙ c.value-in_default.ensures))
    in
    ap₂ (λ one two. Lost (record { one = one; two = two })) c.cause.ensures c.cause-in_default-value.ensures
    ∙ ap Lost (causes-lost cs c.args.self.now.one c.args.self.now.two c.args.i lost)
    ∙ lost-is (place_at cs c.args.self.now.one c.args.self.now.two c.args.i) lost
