pub mod RowStock
pub mod RowDues
pub mod Storing
pub mod Pages
pub mod Going
