-- Places of a table's values in the node table.
pub mod Place
