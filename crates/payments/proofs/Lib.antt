-- Laws of the calls on payments.
pub mod Admitted
pub mod Placed
pub mod RestPut
pub mod RootWaits
pub mod Shortened
pub mod StepPlaced
pub mod StepTexts
pub mod Texts
pub mod WaitReady
pub mod Waiting
