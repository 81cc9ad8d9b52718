-- Options and operands, word by word
pub mod WordLemmas
