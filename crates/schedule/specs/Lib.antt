-- What the schedules' contracts cite beside the rules.
pub mod Checked
pub mod Over
pub mod Written
