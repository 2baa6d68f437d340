pub mod Texts
pub mod FieldByField
