use mathlib.Core.Path.{sym, ap, ◌∙◌}
use Rattle.deck.specs.private.Ready.{doing}
use Rattle.deck.proofs.Answering.{said-refused, said-silent, said-answer}
use Rattle.deck.proofs.answers.said.Goals as goal

pub returns-then-is_sound-deck : goal.returns-then-is_sound-deck
returns-then-is_sound-deck c = said-refused c.args.deck c.is_sound.ensures c.if-is_sound-deck.true c.reason_of.ensures c.into.ensures

pub returns-in_default : goal.returns-in_default
returns-in_default c = said-silent c.args.deck c.is_sound.ensures c.if-is_sound-deck.false c.phase.result c.phase.ensures c.in_default.not-Told

pub returns : goal.returns
returns c = said-answer c.args.deck c.is_sound.ensures c.if-is_sound-deck.false (sym c.phase.ensures ∙ ap doing c.in-Told.is) c.answer_in.ensures
