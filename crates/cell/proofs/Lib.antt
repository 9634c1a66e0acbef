pub mod OnSlot
pub mod Class
pub mod Slot
pub mod Rule
pub mod Sensed
pub mod Ceiling
