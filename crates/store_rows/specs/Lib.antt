pub mod StoredRows
