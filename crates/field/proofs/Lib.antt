pub mod InverseTable
