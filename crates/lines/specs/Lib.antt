pub mod Names
pub mod Numbers
pub mod Cuts
pub mod Told
pub mod Bodies
pub mod Texts
