use native.Mathlib.Omega.{arith}
use mathlib.Core.Path.{sym, ap, ◌∙◌}
use Rattle.deck.specs.private.Ready.{doing}
use Rattle.deck.proofs.SoundLaws.{closed-open}
use Rattle.deck.proofs.Stepping.{seeking-small, between-small, one-small, two-small, none-told}
use Rattle.deck.proofs.Deck.feed.Goals as goal

pub seek-requires : goal.seek-requires
seek-requires c = (seeking-small _ (closed-open _ c.requires.0) (sym c.phase.ensures ∙ ap doing c.in-Seeking.is)).0

pub overflow_add-fed : goal.overflow_add-fed
overflow_add-fed c = omega (arith, (one-small _ (closed-open _ c.requires.0) (sym c.phase.ensures ∙ ap doing c.in-InOne.is)).heard)

pub overflow_add-fed-in-Between : goal.overflow_add-fed-in-Between
overflow_add-fed-in-Between c = omega (arith, between-small _ (closed-open _ c.requires.0) (sym c.phase.ensures ∙ ap doing c.in-Between.is))

pub overflow_add-fed-in-InTwo : goal.overflow_add-fed-in-InTwo
overflow_add-fed-in-InTwo c = omega (arith, (two-small _ (closed-open _ c.requires.0) (sym c.phase.ensures ∙ ap doing c.in-InTwo.is)).heard)

pub unreachable-requires : goal.unreachable-requires
unreachable-requires c = none-told _ (closed-open _ c.requires.0) (sym c.phase.ensures ∙ ap doing c.in-Told.is)
