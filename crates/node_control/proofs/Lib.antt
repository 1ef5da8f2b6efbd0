mod WorkLemmas
mod FrontLemmas
mod LineLemmas
mod ByteLemmas
mod FaultLemmas
mod TallyLemmas
