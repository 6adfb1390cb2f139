-- Outcomes as the plain structs of the C interface.
use Rattle.std.specs.Prelude.{ℕ, cond, List, eqb, length}
use Rattle.refusal.specs.Refusal.{Why, or_none}
use Rattle.refusal.specs.Outcome.{Outcome, refused, accepted, mapped}
use Rattle.refusal.specs.Promise.{Answers, Fills, itself}
use Rattle.byte.specs.declared.ByteRead.{ByteRead}
use Rattle.byte.specs.declared.ByteRead.TheVariants.{Good, Bad}
use Rattle.block.specs.declared.Extent.{Extent}
use Rattle.block.specs.Looking.{no_bad}
use Rattle.block.specs.Reading.{BlockRead, extent_of, payload_of}
use Rattle.deck.specs.Calls.{Saying, Silent, Answered, Denied}
use Rattle.header.specs.declared.Fields.{Fields}
use Rattle.header.specs.Header.{Span}
use Rattle.file.specs.declared.Loaded.{Loaded}
use Rattle.file.specs.Reading.{FileRead, loaded_of, header_of, bytes_of}
use Rattle.wear.specs.declared.Totals.{Totals}
use Rattle.wear.specs.declared.Trial.{Trial}
use Rattle.wear.specs.declared.Trial.TheVariants.{Header, Data}
use Rattle.wear.specs.declared.Spot.{Spot}
use Rattle.wear.specs.Walk.{Block}
use Rattle.tap.specs.declared.TapInfo.{TapInfo}
use Rattle.tap.specs.Reading.{Tap, info_of, durations_of}
use Rattle.capi.specs.declared.TapeRefusal.{TapeRefusal}
use Rattle.capi.specs.declared.TapeByte.{TapeByte}
use Rattle.capi.specs.declared.TapePut.{TapePut}
use Rattle.capi.specs.declared.TapeBlock.{TapeBlock}
use Rattle.capi.specs.declared.TapeTold.{TapeTold}
use Rattle.capi.specs.declared.TapeFile.{TapeFile}
use Rattle.capi.specs.declared.TapeTap.{TapeTap}
use Rattle.capi.specs.declared.TapeSpan.{TapeSpan}
use Rattle.capi.specs.declared.TapeWear.{TapeWear}
use Rattle.capi.specs.declared.TapeReport.{TapeReport}
use Rattle.capi.specs.declared.TapeWalk.{TapeWalk}
use Rattle.capi.specs.declared.TapeWalked.{TapeWalked}

-- ---- The view

-- the refusal of an answer that is accepted
abbrev pub no_refusal : TapeRefusal
no_refusal = record { number = 0; block = 0; place = 0; cause_one = 0; cause_two = 0 }

-- and of one that is refused; where there are no causes both are 0
abbrev pub flat_refusal : Why → TapeRefusal
flat_refusal why = record {
  number = why.number;
  block = why.block;
  place = why.place;
  cause_one = (or_none why.causes).one;
  cause_two = (or_none why.causes).two;
}

-- An outcome as a struct that `make` builds of its refusal and what was given; a refusal gives `none`.
abbrev pub flat : {A B : Type 0} (make : TapeRefusal → A → B) (none : A) → Outcome A → B
flat make none (refused why) = make (flat_refusal why) none
flat make none (accepted given) = make no_refusal given

-- ---- The structs, each with what it holds for a refusal

-- a byte: where it is bad it has no value, and where it is good no cause
abbrev pub flat_byte : ByteRead → TapeByte
flat_byte (Good v) = record { good = 1; value = v; cause = 0 }
flat_byte (Bad cause) = record { good = 0; value = 0; cause = cause }

abbrev pub put_struct : TapeRefusal → (count : ℕ) → TapePut
put_struct refusal count = record { refusal = refusal; count = count }

abbrev pub flat_put : Outcome ℕ → TapePut
flat_put = flat put_struct 0

abbrev pub no_extent : Extent
no_extent = record { n = 0; start = 0; end = 0 }

abbrev pub block_struct : TapeRefusal → Extent → TapeBlock
block_struct refusal e = record { refusal = refusal; n = e.n; start = e.start; end = e.end }

abbrev pub flat_block : Outcome Extent → TapeBlock
flat_block = flat block_struct no_extent

abbrev pub told_struct : (told : ℕ) → TapeBlock → TapeTold
told_struct told b = record { refusal = b.refusal; told = told; n = b.n; start = b.start; end = b.end }

-- what a deck says: nothing yet, all numbers 0; the answer, as the block reader's; or why the call was refused
abbrev pub flat_told : Saying → TapeTold
flat_told Silent = told_struct 0 (block_struct no_refusal no_extent)
flat_told (Answered outcome) = told_struct 1 (flat_block outcome)
flat_told (Denied why) = told_struct 2 (flat_block (refused why))

-- a lone header has no data block: its `stop` is 0
abbrev pub lone_header : Fields → Loaded
lone_header fields = record { fields = fields; stop = 0 }

abbrev pub no_file : Loaded
no_file = lone_header (record { kind = 0; start = 0; end = 0 })

abbrev pub file_struct : TapeRefusal → Loaded → TapeFile
file_struct refusal l = record {
  refusal = refusal;
  kind = l.fields.kind;
  start = l.fields.start;
  end = l.fields.end;
  stop = l.stop;
}

abbrev pub flat_file : Outcome Loaded → TapeFile
flat_file = flat file_struct no_file

abbrev pub no_tap : TapInfo
no_tap = record { version = 0; count = 0 }

abbrev pub tap_struct : TapeRefusal → TapInfo → TapeTap
tap_struct refusal t = record { refusal = refusal; version = t.version; count = t.count }

abbrev pub flat_tap : Outcome TapInfo → TapeTap
flat_tap = flat tap_struct no_tap

abbrev pub no_span : Span
no_span = record { offset = 0; length = 0 }

abbrev pub span_struct : TapeRefusal → Span → TapeSpan
span_struct refusal s = record { refusal = refusal; offset = s.offset; length = s.length }

abbrev pub flat_span : Outcome Span → TapeSpan
flat_span = flat span_struct no_span

-- ---- How worn strips are

-- the totals as they are lent and handed back
abbrev pub totals_of : TapeWear → Totals
totals_of w = record {
  strips = w.strips;
  shorts = w.shorts;
  mediums = w.mediums;
  longs = w.longs;
  noises = w.noises;
  one = w.one;
  two = w.two;
  lost = w.lost;
  bad = w.causes;
}

abbrev pub wear_of : Totals → TapeWear
wear_of t = record {
  strips = t.strips;
  shorts = t.shorts;
  mediums = t.mediums;
  longs = t.longs;
  noises = t.noises;
  one = t.one;
  two = t.two;
  lost = t.lost;
  causes = t.bad;
}

abbrev pub report_struct : TapeRefusal → TapeWear → TapeReport
report_struct refusal totals = record { refusal = refusal; totals = totals }

-- by a refusal the totals stay as they were lent
abbrev pub flat_report : (lent : TapeWear) → Outcome Totals → TapeReport
flat_report lent o = flat report_struct lent (mapped wear_of o)

-- with length 0 a header is tried
abbrev pub trial_of : (length : ℕ) → Trial
trial_of length = cond (eqb length 0) Header (Data length)

abbrev pub length_of : Trial → ℕ
length_of Header = 0
length_of (Data n) = n

abbrev pub spot_of : TapeWalk → Spot
spot_of w = record { from = w.from; trial = trial_of w.length }

abbrev pub walk_of : Spot → TapeWalk
walk_of s = record { from = s.from; length = length_of s.trial }

-- a block that was found: where 4 to 7 refuse it, it has no end; what else is known of it is told
abbrev pub flat_tried : Block → TapeWalked
flat_tried b = record {
  refusal = (flat_block b.outcome).refusal;
  found = 1;
  n = b.n;
  start = b.start;
  end = (flat_block b.outcome).end;
  one = b.tally.one;
  two = b.tally.two;
  lost = b.tally.lost;
  causes = b.tally.bad;
  next = walk_of b.next;
}

-- none was found: where the walk stands is as it was lent
abbrev pub no_block : (lent : TapeWalk) → Why → TapeWalked
no_block lent why = record { refusal = flat_refusal why; found = 0; n = 0; start = 0; end = 0; one = 0; two = 0; lost = 0; causes = no_bad; next = lent }

abbrev pub flat_step : (lent : TapeWalk) → Outcome Block → TapeWalked
flat_step lent (refused why) = no_block lent why
flat_step lent (accepted b) = flat_tried b

-- ---- What a call promises: it answers r and leaves in each lent buffer what the outcome puts, then what it held

abbrev pub PutFlat : (o : Outcome (List ℕ)) (out : List ℕ) (r : TapePut) (out' : List ℕ) → Type 0
PutFlat o out r out' = Answers flat_put length o r × Fills itself o out out'

abbrev pub BlockFlat : (o : Outcome BlockRead) (out : List ℕ) (r : TapeBlock) (out' : List ℕ) → Type 0
BlockFlat o out r out' = Answers flat_block extent_of o r × Fills payload_of o out out'

abbrev pub FileFlat : (o : Outcome FileRead) (h b : List ℕ) (r : TapeFile) (h' b' : List ℕ) → Type 0
FileFlat o h b r h' b' = Answers flat_file loaded_of o r × (Fills header_of o h h' × Fills bytes_of o b b')

abbrev pub TapFlat : (o : Outcome Tap) (out : List ℕ) (r : TapeTap) (out' : List ℕ) → Type 0
TapFlat o out r out' = Answers flat_tap info_of o r × Fills durations_of o out out'
