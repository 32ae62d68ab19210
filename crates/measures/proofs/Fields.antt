-- A field that code reads from a row.
pub use Rattle.nodes.proofs.Fields.{field_cast, field_index}
