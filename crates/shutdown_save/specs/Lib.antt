pub mod SaverStock
pub mod Savers
