pub mod EndLaws
pub mod KeptLaws
pub mod Laws
pub mod NodeLaws
pub mod RunLaws
pub mod SlotLaws
pub mod StartLaws
