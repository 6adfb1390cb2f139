-- `header::pack_header` meets its contract: refusals 1, 8 and 2, and else the header, put in front.
use mathlib.Core.Path.{sym, ◌∙◌}
use Rattle.header.proofs.Packing.{pack_header-wrong_size, pack_header-wrong_type, pack_header-no_room, pack_header-whole}
use Rattle.header.proofs.pack_header.Goals as goal

pub returns-then-wrong_name : goal.returns-then-wrong_name
returns-then-wrong_name c =
    pack_header-wrong_size c.args.out.now c.args.fields c.args.name.now (sym c.wrong_name.ensures ∙ c.if-wrong_name.true) c.into.ensures

pub returns-then-wrong_type : goal.returns-then-wrong_type
returns-then-wrong_type c =
    pack_header-wrong_type c.args.out.now c.args.fields c.args.name.now (sym c.wrong_name.ensures ∙ c.if-wrong_name.false) (sym c.wrong_type.ensures ∙ c.if-wrong_type.true) c.into-then-wrong_type.ensures

pub returns-then-out-lt-HEADER_BYTES : goal.returns-then-out-lt-HEADER_BYTES
returns-then-out-lt-HEADER_BYTES c =
    pack_header-no_room c.args.out.now c.args.fields c.args.name.now (sym c.wrong_name.ensures ∙ c.if-wrong_name.false) (sym c.wrong_type.ensures ∙ c.if-wrong_type.false) c.if-out-lt-HEADER_BYTES.true c.into-then-out-lt-HEADER_BYTES.ensures

pub returns : goal.returns
returns c =
    pack_header-whole c.args.out.now c.args.fields c.args.name.now (sym c.wrong_name.ensures ∙ c.if-wrong_name.false) (sym c.wrong_type.ensures ∙ c.if-wrong_type.false) c.if-out-lt-HEADER_BYTES.false c.put_header.ensures
