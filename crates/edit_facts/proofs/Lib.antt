pub mod InText
