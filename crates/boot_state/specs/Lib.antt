pub mod Barebox
pub mod Custom
pub mod Efi
pub mod Grub
pub mod Orders
pub mod States
pub mod Uboot
