pub mod Counting
pub mod Made
pub mod Dues
pub mod Shards
pub mod Owners
pub mod Listing
