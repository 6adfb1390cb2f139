pub mod BoolLaws
pub mod PlaceLaws
pub mod CountLaws
pub mod PartLaws
pub mod BufferLaws
pub mod LoopLaws
pub mod Table
pub mod TextLaws
