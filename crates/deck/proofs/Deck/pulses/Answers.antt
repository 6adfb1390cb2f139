use native.Mathlib.Omega.{arith}
use lib.ListN.{length, length-map}
use Rattle.pulse.specs.Pulse.{class_of, fixed, classes}
use Rattle.deck.proofs.Answering.{admitted, run-away}
use Rattle.deck.proofs.SoundLaws.{open-closed}
use Rattle.deck.proofs.Stepping.{fed-settles, step-heard, step-settled}
use Rattle.deck.proofs.Going.{class-fixed, byte-fixed, take_steps, running-begun, running-one, running-frame, frame-fits, frame_at, one-fits, running-open, frame-settles, running-told, running-done}
use Rattle.deck.proofs.Deck.pulses.Goals as goal

pub returns-in-Some : goal.returns-in-Some
returns-in-Some c = run-away c.args.self c.args.work.now c.args.out.now (classes fixed c.args.pulses.now) (length c.args.pulses.now) (length-map c.args.pulses.now (class_of fixed)) c.turned_away.ensures c.in-Some.is

pub loop-i-init : goal.loop-i-init
loop-i-init c = running-begun c.args.pulses.now c.args.self _ _ (admitted c.args.self _ _ _ c.turned_away.ensures c.in_default.is)

pub returns-then-self-eq-ANSWERED : goal.returns-then-self-eq-ANSWERED
returns-then-self-eq-ANSWERED c = take_steps c.args.self c.args.work.now c.args.out.now (classes fixed c.args.pulses.now) (length c.args.pulses.now) (length-map c.args.pulses.now (class_of fixed)) (admitted c.args.self _ _ _ c.turned_away.ensures c.in_default.is) (running-told _ _ _ _ _ _ _ _ c.loop-i.invariant c.if-self-eq-ANSWERED.true)

pub settle-self-requires : goal.settle-self-requires
settle-self-requires c = frame-settles _ _ _ _ _ _ _ _ c.loop-i.invariant c.if-self-eq-ANSWERED.false (frame_at _ _ _ _ _ _ _ _ c.loop-i.invariant c.at_frame.ensures c.if-at_frame-pulses.true) (byte-fixed c.args.pulses.now c.loop-i.i c.fixed.ensures c.byte_at.ensures)

pub loop-i-preserved-then-at_frame-pulses : goal.loop-i-preserved-then-at_frame-pulses
loop-i-preserved-then-at_frame-pulses c = running-frame _ _ _ _ _ _ _ _ c.loop-i.invariant (frame_at _ _ _ _ _ _ _ _ c.loop-i.invariant c.at_frame.ensures c.if-at_frame-pulses.true) (frame-fits _ _ _ _ _ _ _ _ c.loop-i.invariant c.at_frame.result c.if-at_frame-pulses.true).0 (byte-fixed c.args.pulses.now c.loop-i.i c.fixed.ensures c.byte_at.ensures) c.settle-self.ensures

pub feed-self-requires : goal.feed-self-requires
feed-self-requires c = (open-closed _ (running-open _ _ _ _ _ _ _ _ c.loop-i.invariant c.if-self-eq-ANSWERED.false), one-fits _ _ _ _ _ _ _ _ c.loop-i.invariant c.loop-i-test.true)

pub settle-self-requires-then-is_whole : goal.settle-self-requires-then-is_whole
settle-self-requires-then-is_whole c = fed-settles c.loop-i.self (running-open _ _ _ _ _ _ _ _ c.loop-i.invariant c.if-self-eq-ANSWERED.false) c.class_of.result _ _ c.loop-i.invariant.room c.feed-self.ensures c.is_whole.ensures c.if-is_whole.true c.close.ensures

pub loop-i-preserved-then-is_whole : goal.loop-i-preserved-then-is_whole
loop-i-preserved-then-is_whole c = running-one _ _ _ _ _ _ _ _ c.loop-i.invariant c.class_of.result c.loop-i-test.true (class-fixed _ c.fixed-in-loop-i.ensures c.class_of.ensures) (step-settled c.loop-i.self (running-open _ _ _ _ _ _ _ _ c.loop-i.invariant c.if-self-eq-ANSWERED.false).early c.class_of.result _ _ c.feed-self.ensures c.is_whole.ensures c.if-is_whole.true c.close.ensures c.settle-self-then-is_whole.ensures)

pub loop-i-preserved : goal.loop-i-preserved
loop-i-preserved c = running-one _ _ _ _ _ _ _ _ c.loop-i.invariant c.class_of.result c.loop-i-test.true (class-fixed _ c.fixed-in-loop-i.ensures c.class_of.ensures) (step-heard c.loop-i.self (running-open _ _ _ _ _ _ _ _ c.loop-i.invariant c.if-self-eq-ANSWERED.false).early c.class_of.result _ _ c.feed-self.ensures c.is_whole.ensures c.if-is_whole.false)

pub returns : goal.returns
returns c = take_steps c.args.self c.args.work.now c.args.out.now (classes fixed c.args.pulses.now) (length c.args.pulses.now) (length-map c.args.pulses.now (class_of fixed)) (admitted c.args.self _ _ _ c.turned_away.ensures c.in_default.is) (running-done _ _ _ _ _ _ _ _ c.loop-i.invariant (λ z. omega (arith, c.loop-i-test)))
