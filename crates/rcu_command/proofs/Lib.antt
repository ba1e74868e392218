pub mod CommandLemmas
pub mod GetterLemmas
pub mod GrammarLemmas
pub mod LevelLemmas
pub mod RowLemmas
pub mod SubcommandLemmas
pub mod WalkLemmas
