mod DurableLemmas
mod Growing
mod Sessions
