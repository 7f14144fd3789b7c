pub mod entry_lists
