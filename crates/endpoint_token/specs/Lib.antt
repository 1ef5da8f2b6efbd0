pub mod TokenTexts
pub mod TokenOwners
