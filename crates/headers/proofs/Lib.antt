pub mod KindLaws
pub mod FieldPlaces
