pub mod Offers
pub mod Accepts
pub mod FormValues
pub mod ListForms
