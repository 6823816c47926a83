-- Made by `tools/tables` from names.txt: the keys of all slots, 64 a file.
pub mod K0
pub mod K1
pub mod K2
pub mod K3
pub mod K4
pub mod K5
pub mod K6
pub mod K7
