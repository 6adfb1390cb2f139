use mathlib.Core.Path.{refl}
use mathlib.Core.List.{[], ◌∷◌}
use Rattle.pulse.specs.Pulse.{class_of, fixed}
use Rattle.deck.proofs.SoundLaws.{closed-open}
use Rattle.deck.proofs.Stepping.{fed-settles, step-heard, step-settled}
use Rattle.deck.proofs.Going.{class-fixed, take-few, take-roomy, take-one}
use Rattle.deck.proofs.Answering.{admitted, run-away}
use Rattle.deck.proofs.Deck.pulse.Goals as goal

pub returns-in-Some : goal.returns-in-Some
returns-in-Some c = run-away c.args.self c.args.work.now c.args.out.now (class_of fixed c.args.pulse ∷ []) 1 refl c.turned_away.ensures c.in-Some.is

pub feed-self-requires : goal.feed-self-requires
feed-self-requires c = ((admitted c.args.self _ _ _ c.turned_away.ensures c.in_default.is).still, take-few c.args.self c.args.work.now c.args.out.now (admitted c.args.self _ _ _ c.turned_away.ensures c.in_default.is))

pub returns-else-is_whole : goal.returns-else-is_whole
returns-else-is_whole c = take-one c.args.self c.args.work.now c.args.out.now (admitted c.args.self _ _ _ c.turned_away.ensures c.in_default.is) (class_of fixed c.args.pulse) (class-fixed c.args.pulse c.fixed.ensures c.class_of.ensures) (step-heard c.args.self (closed-open c.args.self (admitted c.args.self _ _ _ c.turned_away.ensures c.in_default.is).still).early c.class_of.result c.args.work.now c.args.out.now c.feed-self.ensures c.is_whole.ensures c.if-is_whole.false)

pub settle-self-requires : goal.settle-self-requires
settle-self-requires c = fed-settles c.args.self (closed-open c.args.self (admitted c.args.self _ _ _ c.turned_away.ensures c.in_default.is).still) c.class_of.result _ _ (take-roomy c.args.self c.args.work.now c.args.out.now (admitted c.args.self _ _ _ c.turned_away.ensures c.in_default.is)) c.feed-self.ensures c.is_whole.ensures c.if-is_whole.true c.close.ensures

pub returns-then-is_whole : goal.returns-then-is_whole
returns-then-is_whole c = take-one c.args.self c.args.work.now c.args.out.now (admitted c.args.self _ _ _ c.turned_away.ensures c.in_default.is) (class_of fixed c.args.pulse) (class-fixed c.args.pulse c.fixed.ensures c.class_of.ensures) (step-settled c.args.self (closed-open c.args.self (admitted c.args.self _ _ _ c.turned_away.ensures c.in_default.is).still).early c.class_of.result c.args.work.now c.args.out.now c.feed-self.ensures c.is_whole.ensures c.if-is_whole.true c.close.ensures c.settle-self.ensures)
