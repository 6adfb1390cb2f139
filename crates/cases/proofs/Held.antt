-- Every case holds, by computation: the definitions are unfolded and run.
use mathlib.Core.Path.{refl}
use lib.Count.{ones}
use Rattle.lists.specs.Places
use Rattle.lists.specs.Text
use Rattle.refusal.specs.Outcome
use Rattle.pulse.specs.Pulse
use Rattle.byte.specs.Byte
use Rattle.byte.specs.Damage
use Rattle.start.specs.Start
use Rattle.start.specs.Copies
use Rattle.block.specs.Block
use Rattle.block.specs.Reading
use Rattle.header.specs.Header
use Rattle.file.specs.File
use Rattle.file.specs.Reading as FileReading
use Rattle.tap.specs.Tap
use Rattle.tap.specs.Reading as TapReading
use Rattle.cases.specs.Cases.{All, cases}

-- every definition of the format: to unfold this is to unfold them all
format : Unit {0}
unfolding Outcome.if_room Places.first_from Places.tabulate Pulse.class_of Pulse.same ones Byte.is_odd Byte.bits Byte.parity_bit Byte.coded Byte.byte_classes Byte.bytes_classes Byte.pair_of Byte.pair_at Byte.value_of Byte.byte_of Byte.byte_at Damage.differ Block.xor_from Block.countdown Block.copy_bytes Block.trailer Block.copy_classes Block.block_classes Block.measure_block Block.write_block Start.all_short Start.is_start Start.start_of Start.find_start Copies.locate_copies Reading.is_counted Reading.place_at Reading.read_copies Reading.read_at Reading.read_from Reading.read_block Header.filled Header.header_bytes Header.fields_of File.measure_data File.write_blocks File.write_program File.write_file FileReading.read_data FileReading.read_file_by Text.ascii Text.low_first Text.from_low Text.equal Tap.tap_header Tap.long_form Tap.form_of Tap.tap_data Tap.data_of Tap.put_file Tap.write_tap TapReading.tap_version TapReading.durations_in TapReading.tap_of TapReading.fitting TapReading.read_tap
format = tt

pub cases-hold : All cases
unfolding format
cases-hold = (refl, (refl, (refl, (refl, (refl, (refl, (refl, (refl, (refl, (refl, (refl, (refl, (refl, (refl, (refl, (refl, (refl, (refl, (refl, (refl, (refl, (refl, (refl, (refl, (refl, (refl, (refl, (refl, (refl, (refl, (refl, tt)))))))))))))))))))))))))))))))
