mod AdmitLemmas
mod AloneLemmas
mod BelowLemmas
mod CodeLemmas
mod ClosingLemmas
mod ComingLemmas
mod CutLemmas
pub mod FrontLemmas
mod FreshLemmas
mod ServeLemmas
mod StepLemmas
mod WrittenLemmas
