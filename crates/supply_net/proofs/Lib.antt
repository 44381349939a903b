pub mod NameLemmas
pub mod FeederLemmas
pub mod RootLemmas
pub mod GrowthLemmas
pub mod NetworkLemmas
pub mod HeldLemmas
pub mod SwitchLemmas
pub mod WorkedSwitches
