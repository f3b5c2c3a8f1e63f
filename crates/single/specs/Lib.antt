pub mod Pay
pub mod PayLaws
