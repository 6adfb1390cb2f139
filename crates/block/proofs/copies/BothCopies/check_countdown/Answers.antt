-- `block::copies::BothCopies::check_countdown` meets its contract. The invariant: the search from place i on finds what the whole search finds.
use Rattle.std.proofs.Common.{sym, ap, ◌∙◌, not, refl}
use Rattle.lists.proofs.LoopLaws.{first-here, first-passed, first-over}
use Rattle.pulse.specs.Pulse.{classes}
use Rattle.block.specs.Reading.{is_miscounted}
use Rattle.block.proofs.copies.BothCopies.check_countdown.Goals as goal

pub returns-then-not-is_counted : goal.returns-then-not-is_counted
returns-then-not-is_counted c =
    let f = is_miscounted (classes c.args.self.now.t c.args.self.now.strip.now) c.args.self.now.one c.args.self.now.two in
    rw (c.at.ensures, ← c.loop-i.invariant, first-here f 9 c.loop-i.i c.loop-i-test.true (ap not (sym c.is_counted.ensures ∙ c.if-not-is_counted.true))) refl

pub loop-i-preserved : goal.loop-i-preserved
loop-i-preserved c =
    let f = is_miscounted (classes c.args.self.now.t c.args.self.now.strip.now) c.args.self.now.one c.args.self.now.two in
    first-passed f 9 c.loop-i.i c.loop-i-test.true (ap not (sym c.is_counted.ensures ∙ c.if-not-is_counted.false)) ∙ c.loop-i.invariant

pub returns : goal.returns
returns c =
    let f = is_miscounted (classes c.args.self.now.t c.args.self.now.strip.now) c.args.self.now.one c.args.self.now.two in
    rw (← c.loop-i.invariant, first-over f 9 c.loop-i.i c.loop-i-test.false) refl
