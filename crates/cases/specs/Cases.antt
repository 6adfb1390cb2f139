-- The cases of document 01 that are marked P, in its order, one as document 02 corrects it: one list of statements, and that all of them hold.
use Rattle.std.specs.Prelude.{ℕ, ◌+◌, ◌*◌, ◌≡◌, List, [], ◌∷◌, length, get_or, set, replicate}
use Rattle.refusal.specs.Outcome.{refused_by, accepted, mapped}
use Rattle.pulse.specs.declared.Class.{Class}
use Rattle.pulse.specs.declared.Class.TheVariants.{Short, Medium, Long, Noise}
use Rattle.pulse.specs.Pulse.{fixed, class_of, classes}
use Rattle.byte.specs.declared.ByteRead.TheVariants.{Good}
use Rattle.byte.specs.Byte.{parity_bit, byte_classes, byte_pulses, byte_at}
use Rattle.byte.specs.Damage.{differ}
use Rattle.block.specs.Block.{checksum, block_classes, block_pulses, write_block}
use Rattle.block.specs.Reading.{read_block}
use Rattle.header.specs.declared.Fields.{Fields}
use Rattle.header.specs.Header.{header_bytes, fields_of}
use Rattle.file.specs.File.{file, data_bytes, write_file}
use Rattle.file.specs.Reading.{read_file}
use Rattle.tap.specs.Tap.{write_tap}
use Rattle.tap.specs.Reading.{durations_of, read_tap}

abbrev pub All : List (Type 0) → Type 0
All [] = Unit {0}
All (case ∷ rest) = case × All rest

-- pulses i and i + 1 of a strip turned round
abbrev pub swapped : ℕ → List ℕ → List ℕ
swapped i strip = set (set strip i (get_or strip (i + 1) 0)) (i + 1) (get_or strip i 0)

-- bits 0 and 1 of the byte at a place turned round
abbrev pub turned : ℕ → List ℕ → List ℕ
turned p strip = swapped (p + 4) (swapped (p + 2) strip)

-- $00 so turned; and the block with that payload byte, so turned in copy one
abbrev pub turned_byte : List Class
turned_byte = classes fixed (turned 0 (byte_pulses 0x00))

abbrev pub turned_block : List Class
turned_block = classes fixed (turned (64 + 20 * 9) (block_pulses 64 (0x00 ∷ [])))

-- a type 1 program from $0801 to $9709, named GAME
abbrev pub game_fields : Fields
game_fields = record { kind = 1; start = 0x0801; end = 0x9709 }

abbrev pub game_name : List ℕ
game_name = 0x47 ∷ 0x41 ∷ 0x4d ∷ 0x45 ∷ []

-- its header
abbrev pub game_header : List ℕ
game_header = 0x01 ∷ 0x01 ∷ 0x08 ∷ 0x09 ∷ 0x97 ∷ 0x47 ∷ 0x41 ∷ 0x4d ∷ 0x45 ∷ replicate 183 0x20

-- a TAP file of a few data bytes: C64-TAPE-RAW, version, three zero bytes, their number in four bytes
abbrev pub tap_bytes : (version : ℕ) (bytes : List ℕ) → List ℕ
tap_bytes version bytes =
    0x43 ∷ 0x36 ∷ 0x34 ∷ 0x2d ∷ 0x54 ∷ 0x41 ∷ 0x50 ∷ 0x45 ∷ 0x2d ∷ 0x52 ∷ 0x41 ∷ 0x57 ∷ version ∷ 0 ∷ 0 ∷ 0 ∷ length bytes ∷ 0 ∷ 0 ∷ 0 ∷ bytes

abbrev pub cases : List (Type 0)
cases =
    (class_of fixed 199 ≡ Noise)
    ∷ (class_of fixed 200 ≡ Short)
    ∷ (class_of fixed 439 ≡ Short)
    ∷ (class_of fixed 440 ≡ Medium)
    ∷ (class_of fixed 607 ≡ Medium)
    ∷ (class_of fixed 608 ≡ Long)
    ∷ (class_of fixed 959 ≡ Long)
    ∷ (class_of fixed 960 ≡ Noise)
    -- $89 is LM MS SM SM MS SM SM SM MS SM
    ∷ (byte_classes 0x89
    ≡ Long ∷ Medium ∷ Medium ∷ Short ∷ Short ∷ Medium ∷ Short ∷ Medium ∷ Medium ∷ Short
    ∷ Short ∷ Medium ∷ Short ∷ Medium ∷ Short ∷ Medium ∷ Medium ∷ Short ∷ Short ∷ Medium ∷ [])
    ∷ (parity_bit 0x00 ≡ 1)
    ∷ (parity_bit 0x01 ≡ 0)
    ∷ (parity_bit 0xff ≡ 1)
    ∷ (parity_bit 0x22 ≡ 1)
    ∷ (parity_bit 0x07 ≡ 0)
    ∷ (checksum (0x41 ∷ []) ≡ 0x41)
    ∷ (checksum (0x41 ∷ 0x41 ∷ []) ≡ 0x00)
    ∷ (header_bytes game_fields game_name ≡ game_header)
    ∷ (checksum game_header ≡ 0xb8)
    -- as a program file, which would have 36,616 bytes: refused with 9, in reading and in writing
    ∷ (data_bytes (fields_of game_header) ≡ 36616)
    ∷ (read_file (classes fixed (block_pulses 64 game_header)) 192 36616 0 ≡ refused_by 9 0 0)
    ∷ (write_file 1000000 (file game_fields game_name (replicate 36616 0x00) 64 64) ≡ refused_by 9 0 0)
    -- $00 with bits 0 and 1 turned round, four pulses, is a good $03
    ∷ (differ (byte_classes 0x00) turned_byte ≡ 4)
    ∷ (byte_at turned_byte 0 ≡ Good 0x03)
    -- the same in copy one's payload place, n = 1, all else sound: refused with 7, place 1
    ∷ (differ (block_classes 64 (0x00 ∷ [])) turned_block ≡ 4)
    ∷ (read_block turned_block 1 0 1 ≡ refused_by 7 0 1)
    -- n = 1, K = 64: 626 pulses
    ∷ (mapped length (write_block 626 64 (0x00 ∷ [])) ≡ accepted 626)
    -- TAP data 2D 41 56 is 360, 520, 688 in either version
    ∷ (mapped durations_of (read_tap 3 (tap_bytes 0 (0x2d ∷ 0x41 ∷ 0x56 ∷ []))) ≡ accepted (360 ∷ 520 ∷ 688 ∷ []))
    ∷ (mapped durations_of (read_tap 3 (tap_bytes 1 (0x2d ∷ 0x41 ∷ 0x56 ∷ []))) ≡ accepted (360 ∷ 520 ∷ 688 ∷ []))
    ∷ (write_tap 23 1 (360 ∷ 520 ∷ 688 ∷ []) ≡ accepted (tap_bytes 1 (0x2d ∷ 0x41 ∷ 0x56 ∷ [])))
    -- version 1 data 00 54 03 00 is 852 cycles (document 02, Q-4)
    ∷ (mapped durations_of (read_tap 1 (tap_bytes 1 (0x00 ∷ 0x54 ∷ 0x03 ∷ 0x00 ∷ []))) ≡ accepted (852 ∷ []))
    ∷ (write_tap 24 1 (852 ∷ []) ≡ accepted (tap_bytes 1 (0x00 ∷ 0x54 ∷ 0x03 ∷ 0x00 ∷ [])))
    ∷ []
