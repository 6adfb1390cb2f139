-- `block::copies::BothCopies::fill_values` meets its contract: with no place repaired the values are copy one's bits, with every place copy two's,
-- else copy one's bits are mended.
use mathlib.Core.Path.{ap, ◌∙◌}
use lib.Seq.{sets}
use Rattle.block.proofs.Filling.{values-whole, bits-held, values-over}
use borrow.Author.Rules.{rules}
use Rattle.block.proofs.copies.BothCopies.fill_values.Goals as goal

pub returns-then-repaired-self : goal.returns-then-repaired-self
returns-then-repaired-self c =
    c.fill_copy.ensures
    ∙ ap (sets c.args.out.now 0)
    (values-whole c.args.self.now.t c.args.self.now.strip.now c.args.self.now.one c.args.self.now.two c.args.self.now.n c.requires.none_lost.0 c.requires.none_lost.1 c.if-repaired-self.true c.whole_copy.ensures)

pub mend_runs-requires : goal.mend_runs-requires
mend_runs-requires c = record {
  room = search rules;
  none_lost = (
    c.requires.none_lost.0,
    c.requires.none_lost.2,
    bits-held c.args.self.now.t c.args.self.now.strip.now c.args.self.now.one c.args.self.now.n c.args.self.now.two c.args.repaired c.args.out.now _ c.requires.room c.if-repaired-self.false c.whole_copy.ensures c.fill_copy.ensures,
  );
}

pub returns : goal.returns
returns c =
    values-over c.args.self.now.t c.args.self.now.strip.now c.args.self.now.one c.args.self.now.two c.args.self.now.n c.whole_copy.result c.args.out.now c.requires.room
    c.fill_copy.ensures c.mend_runs.ensures
