mod Gone
mod Nodes
mod Expressions
mod Statements
