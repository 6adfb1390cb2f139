-- `byte::decoder::Bounds::decode` meets its contract.
use Rattle.std.proofs.Common.{◌≡◌, length, ◌∙◌, arith}
use lib.ListN.{length-map}
use Rattle.lists.proofs.BoolLaws.{le-cmp}
use Rattle.byte.specs.private.Frame.{class_in}
use Rattle.byte.proofs.FrameLaws.{framing-begun, framing-next, frame-other, frame-read}
use Rattle.byte.proofs.decoder.Bounds.decode.Goals as goal

pub returns-then-frame-lt-PAIR_PULSES : goal.returns-then-frame-lt-PAIR_PULSES
returns-then-frame-lt-PAIR_PULSES c = frame-other _ (λ e. omega (arith, length-map c.args.frame.now (class_in c.args.self)))

pub returns-then-frame-gt-BYTE_PULSES : goal.returns-then-frame-gt-BYTE_PULSES
returns-then-frame-gt-BYTE_PULSES c = frame-other _ (λ e. omega (arith, length-map c.args.frame.now (class_in c.args.self)))

pub loop-i-init : goal.loop-i-init
loop-i-init c = framing-begun _ _

pub loop-i-preserved : goal.loop-i-preserved
loop-i-preserved c =
    rw (c.from.ensures, c.le-out.ensures, c.le.ensures, le-cmp c.args.self.long.0 c.distance-far.result.0, le-cmp c.args.self.medium.0 c.distance-far.result.0)
    (framing-next c.args.self c.args.frame.now (omega arith) c.loop-i.invariant c.distance-far.ensures)

pub returns : goal.returns
returns c =
    let last : c.loop-i.i ≡ length c.args.frame.now = omega arith in
    c.close.ensures ∙ frame-read c.args.self c.args.frame.now (rw last at c.loop-i.invariant) c.is_marker-marked.ensures
