pub mod Cursors
pub mod VoltForms
