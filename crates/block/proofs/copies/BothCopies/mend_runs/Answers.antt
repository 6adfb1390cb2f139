-- `block::copies::BothCopies::mend_runs` meets its contract. The invariant: the values left, put after those that are there, give the whole, and the
-- places left hold copy one's bits.
use native.Mathlib.Omega.{arith}
use mathlib.Core.Path.{sym, ◌∙◌}
use Rattle.lists.proofs.LoopLaws.{put-done, table-over}
use Rattle.pulse.specs.Pulse.{classes}
use Rattle.block.specs.Reading.{value_at}
use Rattle.block.proofs.Filling.{run_value, values-next, values-there, bits-after}
use Rattle.block.proofs.copies.BothCopies.mend_runs.Goals as goal

pub loop-i-preserved-then-flag : goal.loop-i-preserved-then-flag
loop-i-preserved-then-flag c = (
  c.run_end-end.ensures.1,
  values-next (classes c.args.self.now.t c.args.self.now.strip.now) c.args.self.now.one c.args.self.now.two c.args.self.now.n c.args.out.now (omega arith) c.run_end-end.ensures.1 c.loop-i.invariant.1
      c.fill_places.ensures,
  bits-after c.args.self.now.t c.args.self.now.strip.now c.args.self.now.one c.args.self.now.n c.loop-i.out _ (value_at (classes c.args.self.now.t c.args.self.now.strip.now) c.args.self.now.one c.args.self.now.two) (omega arith)
      c.fill_places.ensures c.loop-i.invariant.2,
)

pub loop-i-preserved : goal.loop-i-preserved
loop-i-preserved c =
    let values = run_value c.args.self.now.t c.args.self.now.strip.now c.args.self.now.one c.args.self.now.two c.args.self.now.n c.requires.none_lost.0 c.args.row.now c.loop-i.i _ c.requires.none_lost.1 c.run_end-end.ensures.1 c.run_end-end.ensures.2
    (sym c.flag.ensures ∙ c.if-flag.false) in (
      c.run_end-end.ensures.1,
      values-there (classes c.args.self.now.t c.args.self.now.strip.now) c.args.self.now.one c.args.self.now.two c.args.self.now.n c.args.out.now (omega arith) c.run_end-end.ensures.1 c.requires.room c.loop-i.invariant.1
          (λ j a b. c.loop-i.invariant.2 j a (omega (arith, c.run_end-end.ensures.1)) ∙ values j a b),
      λ j a b. c.loop-i.invariant.2 j (omega (arith, c.run_end-end.ensures.0)) b,
    )

pub returns : goal.returns
returns c =
    put-done c.loop-i.invariant.1 (table-over (value_at (classes c.args.self.now.t c.args.self.now.strip.now) c.args.self.now.one c.args.self.now.two) c.args.self.now.n c.loop-i.i c.loop-i-test.false)
