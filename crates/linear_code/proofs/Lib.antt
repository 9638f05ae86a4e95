mod Cuts
mod Terms
mod Outputs
mod Examples
