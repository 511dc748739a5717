pub mod Described
mod LineForms
pub mod OneLine
pub mod OneText
mod TextForms
