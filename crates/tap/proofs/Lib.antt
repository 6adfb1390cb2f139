mod GroupLaws
mod UnitLaws
mod HeaderLaws
mod ReaderLaws
mod ApartLaws
mod WriterLaws
pub mod DataLaws
pub mod FormLaws
pub mod RoundTrip
