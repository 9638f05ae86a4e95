pub mod Migrations
pub mod Migrating
