pub mod AboveLemmas
pub mod MemberLemmas
pub mod SlugLemmas
pub mod TopLemmas
pub mod NameLemmas
pub mod PassLemmas
pub mod PutLemmas
pub mod HiddenLemmas
