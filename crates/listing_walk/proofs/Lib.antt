pub mod Stand
pub mod Steps
