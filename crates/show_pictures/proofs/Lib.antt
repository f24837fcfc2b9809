mod Contents
mod Markup
mod Reading
mod Values
