pub mod Repaint
pub mod Repainted
pub mod Cut
pub mod Pass
pub mod Ready
