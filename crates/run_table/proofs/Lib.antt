pub mod NoWords
