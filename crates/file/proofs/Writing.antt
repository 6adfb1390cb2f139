-- What the file writer comes to, by what its parts answered.
use Prim.Native.Nat.{ℕ, ◌+◌, ◌-◌, ◌≤◌, ◌<◌}
use Rattle.std.specs.Prelude.{Result, ℕ, Err, Ok}
use native.Mathlib.Omega.{arith}
use mathlib.Core.Path.{◌≡◌, refl, sym, ap, ap₂, ◌∙◌}
use mathlib.Core.Bool.{Bool, true, false, cond}
use mathlib.Core.List.{List, ◌++◌}
use borrow.Author.Tests.{eq-eqb, ne_eqb}
use lib.Dec.{lit≤}
use lib.ListN.{length, replicate, take, drop, length-append, length-take, length-drop}
use Rattle.lists.specs.Places.{part}
use Rattle.lists.specs.Buffer.{put_at}
use Rattle.lists.proofs.BufferLaws.{length-put, put-lent, put_whole}
use Rattle.refusal.specs.declared.Reason.TheVariants.{WrongSize, NoRoom, WrongType, WrongAddresses, WrongLeader}
use Rattle.refusal.specs.declared.Refusal.{Refusal}
use Rattle.refusal.specs.Refusal.{refusal_at}
use Rattle.refusal.specs.Outcome.{Outcome, accepted, refused_with, refuse, of_block, outcome_of}
use Rattle.refusal.specs.Promise.{Answers, Fills, itself, Written}
use Rattle.refusal.proofs.PromiseLaws.{promise-refused, written-refused, written-accepted}
use Rattle.refusal.proofs.OutcomeLaws.{if_room-no_room, if_room-room, cond-accepted, of_block-accepted, mapped-accepted, mapped-refused}
use Rattle.block.specs.Block.{block_pulses, block_length, wrong_size, wrong_leader, measure_block, write_block}
use Rattle.block.proofs.BlockLaws.{length-block_pulses, Measured, measure_block-accepted, measure_block-refused, write_block-measured}
use Rattle.header.specs.declared.Fields.{Fields}
use Rattle.header.specs.Header.{wrong_name, header_bytes, pack_header, wrong_type}
use Rattle.header.proofs.HeaderLaws.{length-header}
use Rattle.file.specs.File.{File, file_header, two_blocks, write_blocks, write_file, measure_data, write_program}
use Rattle.file.proofs.FileLaws.{measure_data-size, not_program-wrong_type}

-- ---- The two blocks

-- of a block of a right size only the leader can be refused
leader-refused : (t : Bool) (count : ℕ) (r : Refusal) → refused_with r ≡ of_block 1 (cond t (refuse WrongLeader 0) (accepted count))
    → (t ≡ true) × (refused_with {A = ℕ} r ≡ of_block 1 (refuse WrongLeader 0))
leader-refused true count r e = (refl, e)
leader-refused false count r e = absurd (let z : ◌≡◌ {A = ℕ} 0 1 = cc in omega arith)

module _ (out : List ℕ) (k₀ : ℕ) (header : List ℕ) (k₁ : ℕ) (bytes : List ℕ) where
  abbrev outcome : Outcome (List ℕ)
  outcome = write_blocks (length out) k₀ header k₁ bytes

  module _ {p : Result ℕ Refusal} (e : outcome_of p ≡ measure_block k₀ 192) where
    -- the header's leader is wrong
    pub write_blocks-header_leader : {r : Refusal} → p ≡ Err r → Written outcome out (Err r) out
    unfolding write_blocks measure_block
    write_blocks-header_leader {r} q =
        let t : wrong_leader k₀ ≡ true = measure_block-refused k₀ 192 r refl (sym e ∙ ap outcome_of q) in
        promise-refused length itself outcome out (rw t) (rw t at (sym (ap outcome_of q) ∙ e))

    pub one : {first : ℕ} → p ≡ Ok first → Measured k₀ 192 first
    one {first} q = measure_block-accepted k₀ 192 first (sym e ∙ ap outcome_of q)

    module _ {first : ℕ} (q : p ≡ Ok first) {p₁ : Result ℕ Refusal} (e₁ : outcome_of p₁ ≡ of_block 1 (measure_block k₁ (length bytes))) where
      -- the data's leader is wrong
      pub write_blocks-data_leader : {r : Refusal} → wrong_size (length bytes) ≡ false → p₁ ≡ Err r → Written outcome out (Err r) out
      unfolding write_blocks measure_block
      write_blocks-data_leader {r} size q₁ =
          let t = leader-refused (wrong_leader k₁) (block_length k₁ (length bytes)) r (rw size at (sym (ap outcome_of q₁) ∙ e₁)) in
          promise-refused length itself outcome out (rw ((one q).leader, t.0)) t.1

      module _ {second : ℕ} (q₁ : p₁ ≡ Ok second) (long : length header ≡ 192) where
        pub two : Measured k₁ (length bytes) second
        two = measure_block-accepted k₁ (length bytes) second (of_block-accepted 1 (measure_block k₁ (length bytes)) second (sym e₁ ∙ ap outcome_of q₁))

        long₀ : length (block_pulses k₀ header) ≡ first
        long₀ = length-block_pulses k₀ header ∙ rw long (one q).count

        long₁ : length (block_pulses k₁ bytes) ≡ second
        long₁ = length-block_pulses k₁ bytes ∙ two.count

        count : length (two_blocks k₀ header k₁ bytes) ≡ first + second
        count = length-append (block_pulses k₀ header) (block_pulses k₁ bytes) ∙ ap₂ ◌+◌ long₀ long₁

        pub write_blocks-no_room : {s : Refusal} → length out < first + second → s ≡ refusal_at NoRoom 0 → Written outcome out (Err s) out
        unfolding write_blocks
        write_blocks-no_room h = written-refused outcome out (rw ((one q).leader, two.leader, count, if_room-no_room (length out) (first + second) _ h))

        -- the second block goes into the part of the output after the first
        pub write_blocks-both : {a b : List ℕ} → first + second ≤ length out → Fills itself (write_block (length out) k₀ header) out a
            → Fills itself (write_block (length (part a first (length a - first))) k₁ bytes) (part a first (length a - first)) b
            → Written outcome out (Ok (first + second)) (take first a ++ (b ++ drop (length a - first) (drop first a)))
        unfolding write_blocks
        write_blocks-both {a} h s t =
            let put₀ : a ≡ put_at out 0 (block_pulses k₀ header) = rw (write_block-measured (length out) k₀ header (rw (← long) at (one q)) (omega arith)) at s in
            let same : length a ≡ length out = ap length put₀ ∙ length-put out 0 (block_pulses k₀ header) in
            let room : second ≤ length (part a first (length a - first)) = simp (length-take, length-drop) (omega arith) in
            let put₁ = rw (write_block-measured (length (part a first (length a - first))) k₁ bytes two room) at t in
            written-accepted outcome out (rw ((one q).leader, two.leader, count, if_room-room (length out) (first + second) _ h)) count
            (put-lent out (block_pulses k₀ header) (block_pulses k₁ bytes) (rw (long₀, long₁) h) first long₀ put₀ put₁)

-- ---- The program

module _ (out : List ℕ) (fields : Fields) (k₀ : ℕ) (header : List ℕ) (k₁ : ℕ) (bytes : List ℕ) where
  abbrev program : Outcome (List ℕ)
  program = write_program (length out) fields k₀ header k₁ bytes

  module _ {p : Result ℕ Refusal} (e : outcome_of p ≡ measure_data fields) where
    -- type or addresses are wrong
    pub write_program-refused : (r : Refusal) → p ≡ Err r → Written program out (Err r) out
    unfolding write_program
    write_program-refused r q = written-refused program out {r = r} {s = r} (rw (← e, q)) refl

    module _ {n : ℕ} (q : p ≡ Ok n) where
      pub write_program-wrong_addresses : {r : Refusal} → (n ≡ length bytes → ⊥) → r ≡ refusal_at WrongAddresses 0 → Written program out (Err r) out
      unfolding write_program
      write_program-wrong_addresses h = written-refused program out (rw (← e, q, ne_eqb n (length bytes) h))

      module _ (size : n ≡ length bytes) where
        pub write_program-size : wrong_size (length bytes) ≡ false
        write_program-size = rw (← size) (measure_data-size fields n (sym e ∙ ap outcome_of q))

        pub write_program-blocks : (r : Result ℕ Refusal) {out' : List ℕ} → Written (write_blocks (length out) k₀ header k₁ bytes) out r out' → Written program out r out'
        unfolding write_program
        write_program-blocks r w = rw (← e, q, eq-eqb n (length bytes) size) w

-- ---- The file

module _ (out : List ℕ) (f : File) where
  abbrev whole : Outcome (List ℕ)
  whole = write_file (length out) f

  abbrev packing : Outcome (List ℕ)
  packing = pack_header 192 f.fields f.name

  -- packing refuses the name or the type, and so does writing
  packed-refused : (s t : Bool) → wrong_name (length f.name) ≡ s → wrong_type f.fields.kind ≡ t → (r : Refusal) → packing ≡ refused_with r → whole ≡ refused_with r
  unfolding pack_header write_file write_program measure_data
  packed-refused true t named typed r e = rw (named) (rw named at e)
  packed-refused false true named typed r e = rw (named, not_program-wrong_type f.fields.kind typed) (rw (named, typed) at e)
  packed-refused false false named typed r e =
      let z : ◌≡◌ {A = ℕ} 0 1 = (let o = rw (named, typed, if_room-room 192 192 (accepted (header_bytes f.fields f.name)) (lit≤ tt)) at e in cc) in
      absurd (omega arith)

  module _ {p : Result ℕ Refusal} (e : Answers itself length packing (outcome_of p)) where
    pub write_file-refused : (r : Refusal) → p ≡ Err r → Written whole out (Err r) out
    write_file-refused r q =
        let o = mapped-refused length packing r (sym (ap outcome_of q) ∙ e) in
        written-refused whole out {r = r} {s = r} (packed-refused (wrong_name (length f.name)) (wrong_type f.fields.kind) refl refl r o) refl

    module _ {n : ℕ} (q : p ≡ Ok n) where
      packed-name : wrong_name (length f.name) ≡ false
      unfolding pack_header
      packed-name =
          let m = mapped-accepted length packing (sym (ap outcome_of q) ∙ e) in
          (cond-accepted (wrong_name (length f.name)) (refusal_at WrongSize 0) _ m.0 m.1).0

      packed-header : packing ≡ accepted (file_header f)
      unfolding pack_header
      packed-header =
          let m = mapped-accepted length packing (sym (ap outcome_of q) ∙ e) in
          let a = cond-accepted (wrong_name (length f.name)) (refusal_at WrongSize 0) _ m.0 m.1 in
          let b = cond-accepted (wrong_type f.fields.kind) (refusal_at WrongType 0) _ m.0 a.1 in
          rw (a.0, b.0) (if_room-room 192 192 (accepted (file_header f)) (lit≤ tt))

      pub write_file-program : {header : List ℕ} (r : Result ℕ Refusal) {out' : List ℕ} → Fills itself packing (replicate 192 0) header
          → Written (write_program (length out) f.fields f.leader₀ header f.leader₁ f.bytes) out r out' → Written whole out r out'
      unfolding write_file
      write_file-program {header} r put w =
          let same : header ≡ file_header f = rw packed-header at put ∙ put_whole (replicate 192 0) (file_header f) (length-header f.fields f.name) in
          rw packed-name (rw same at w)
