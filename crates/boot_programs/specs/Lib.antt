pub mod Ends
pub mod Settings
pub mod Grub
pub mod Uboot
pub mod Barebox
pub mod Efi
pub mod Custom
pub mod Programs
