pub mod Notes
pub mod LoneViews
